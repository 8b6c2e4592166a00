-- Where a text may be cut, at worked examples.
use Rattle.std.proofs.Common.{◌≡◌, [], ◌∷◌, refl, ap}
use Rattle.csv.specs.declared.parser.State.TheVariants.{StartRecord, InField, InQuoted}
use Rattle.gd_live.specs.TextLines.{Left, IsClosed}

worked_closed : IsClosed (97 ∷ 44 ∷ 98 ∷ 10 ∷ [])
worked_closed = refl

-- so is what a carriage return and a line feed end
worked_return : IsClosed (97 ∷ 13 ∷ 10 ∷ [])
worked_return = refl

-- a line that has not ended isn't closed
worked_open : ¬ IsClosed (97 ∷ 44 ∷ 98 ∷ [])
worked_open e = let within : InField ≡ StartRecord = ap (λ (l : Left). l.0) e in absurd cc

-- nor is one whose line feed stands within quotation marks
worked_quoted : ¬ IsClosed (34 ∷ 97 ∷ 10 ∷ [])
worked_quoted e = let within : InQuoted ≡ StartRecord = ap (λ (l : Left). l.0) e in absurd cc
