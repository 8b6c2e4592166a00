-- The elements that rows name.
use Rattle.std.specs.Prelude.{ℕ, List, length}
use Rattle.std.specs.Option.{unwrap_or}
use Rattle.gd_system.specs.Pipeline.{Pipeline, elements_of, element_number}
use Rattle.gd_system.specs.declared.part.Element.{Element}

-- The element of this name; one that isn't there has the number past the last.
abbrev pub element_named : Pipeline → List ℕ → Element
element_named p name = record { 0 = unwrap_or (element_number p name) (length (elements_of p)) }
