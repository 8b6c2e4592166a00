-- How a name lies in memory.
use Rattle.std.specs.Prelude.{◌≡◌, ℕ, ◌≤◌, ◌-◌, List, ◌++◌, length, take, replicate, Ok}
use Rattle.gd_units.specs.declared.name.Name.TheInside.{Inside}
use Rattle.gd_units.specs.Names.{name_of}

abbrev pub bytes_of : Inside → List ℕ
bytes_of a = take a.len a.bytes

-- the bytes, and then zeros
abbrev pub padded : List ℕ → List ℕ
padded text = text ++ replicate (16 - length text) 0

pub record IsPadded (a : Inside) : Type 0 where
  pub short : a.len ≤ 16
  pub rest : a.bytes ≡ padded (bytes_of a)
  pub spelled : name_of (bytes_of a) ≡ Ok (bytes_of a)
