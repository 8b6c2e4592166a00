-- A name's bytes give back what lies in memory.
use Rattle.std.proofs.Common.{◌≡◌, ℕ, List, length, sym, ap, arith}
use Rattle.std.proofs.lemmas.List.{length-replicate, length-append, length-take}
use Rattle.gd_units.specs.declared.name.Name.TheInside.{Inside}
use Rattle.gd_units.specs.NameInside.{bytes_of, padded, IsPadded}

len_of : (a : Inside) → IsPadded a → length (bytes_of a) ≡ a.len
len_of a h =
    let whole = ap length h.rest in
    omega (arith, h.short, length-take a.len a.bytes, simp (length-append, length-replicate) at whole)

pair_is : (x y : List ℕ) (m n : ℕ) → x ≡ y → m ≡ n → let A : Type 0 = List ℕ × ℕ in let p : A = (x, m) in let q : A = (y, n) in p ≡ q
pair_is x y m n e f = cc

pub gives_back : (a : Inside) → IsPadded a → record { bytes = padded (bytes_of a); len = length (bytes_of a) } ≡ a
gives_back a h = ap (λ (p : List ℕ × ℕ). record { bytes = p.0; len = p.1 }) (pair_is _ _ _ _ (sym h.rest) (len_of a h))
