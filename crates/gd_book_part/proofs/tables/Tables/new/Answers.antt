use Rattle.std.proofs.Common.{◌≡◌, ℕ, zero, suc, List, [], length, get_or, refl, sym, ap, subst, ◌∙◌, arith}
use Rattle.std.proofs.lemmas.Bool.{false≢true}
use Rattle.gd_system.specs.Pipeline.{Pipeline}
use Rattle.gd_question.specs.Stored.{AreOwn}
use Rattle.gd_question.proofs.Limits.{in_force-own}
use Rattle.gd_contracts.specs.Holdings.{Holdings}
use Rattle.gd_book_part.specs.LineConfirmations.{Tells, nothing}
use Rattle.gd_book_part.specs.declared.confirmations.Confirmation.{Confirmation}
use Rattle.gd_book_part.proofs.tables.Tables.new.Goals as goal

empty_tells : (entries : List Confirmation) → entries ≡ [] → (line : ℕ) → Tells [] line (get_or entries line nothing)
empty_tells entries e line = subst (λ es. Tells [] line (get_or es line nothing)) (sym e) (go line)
  where
    go : (line : ℕ) → Tells [] line (get_or [] line nothing)
    go zero = record { current = omega arith; origin = refl; dest = refl; waived = refl }
    go (suc line) = record { current = omega arith; origin = refl; dest = refl; waived = refl }

pub returns : goal.returns
returns c =
    let system : c.system.result.now ≡ c.args.opening.now.holdings.pipeline = c.system.ensures ∙ ap (λ (h : Holdings). h.pipeline) c.contracts.ensures in
    let own : AreOwn c.args.opening.now.holdings.pipeline c.in_ok-capacities.capacities.items = subst (λ (p : Pipeline). AreOwn p c.in_ok-capacities.capacities.items) system c.in_ok-capacities.ensures in
    record {
      stamp = c.beginning.ensures;
      cycle = refl;
      round = refl;
      cut = refl;
      frozen = refl;
      lines = c.new.ensures;
      sized = ap length c.new-2.ensures.items;
      confirmed = empty_tells c.new-2.result.items c.new-2.ensures.items;
      limited = own.sized;
      in_force = in_force-own c.args.opening.now.holdings.pipeline c.in_ok-capacities.capacities.items own;
      in_effect = λ cycle low high. absurd (omega (arith, low, high));
      five = refl;
      counted = refl;
      before = refl;
      accepted = refl;
      small = omega arith;
      few_nominations = omega arith;
      calls = refl;
      few_calls = omega arith;
      few = omega arith;
      settled = omega arith;
      running = λ frozen. absurd (false≢true frozen);
      few_rounds = omega arith;
    }
