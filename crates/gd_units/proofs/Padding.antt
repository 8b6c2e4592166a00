-- What copying to the front of zeros leaves.
use Rattle.std.proofs.Common.{◌≡◌, ℕ, ◌==◌, nat_lt, false, None, Ok, List, ◌++◌, length, take, drop, replicate, sym, ap, refl, ◌∙◌}
use Rattle.std.proofs.lemmas.List.{drop-replicate}
use Rattle.std.proofs.Math.Seq.{take-append_seam}
use Rattle.gd_units.specs.Names.{bad_byte, name_of}
use Rattle.gd_units.specs.NameInside.{padded}

-- the text at the front of 16 zeros
abbrev pub copied : List ℕ → List ℕ
copied text = text ++ drop (length text) (replicate 16 0)

pub front : (text : List ℕ) → take (length text) (copied text) ≡ text
front text = take-append_seam text (drop (length text) (replicate 16 0))

pub is_padded : (text : List ℕ) → copied text ≡ padded (take (length text) (copied text))
is_padded text = ap (λ rest. text ++ rest) (drop-replicate (length text) 16 0) ∙ ap padded (sym (front text))

spelled_so : (text : List ℕ) → (length text == 0) ≡ false → nat_lt 16 (length text) ≡ false → bad_byte text ≡ None → name_of text ≡ Ok text
spelled_so text some few good = rw (some, few, good) refl

pub is_spelled : (text : List ℕ) → (length text == 0) ≡ false → nat_lt 16 (length text) ≡ false → bad_byte text ≡ None → name_of (take (length text) (copied text)) ≡ Ok (take (length text) (copied text))
is_spelled text some few good = ap name_of (front text) ∙ spelled_so text some few good ∙ ap (λ t. Ok t) (sym (front text))
