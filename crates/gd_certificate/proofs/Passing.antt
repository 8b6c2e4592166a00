-- What a pass shows, and what a fault excludes.
use Rattle.std.proofs.Common.{◌≡◌, ℕ, ◌<◌, subst, sym, List, ◌&&◌, Bool, true, false, refl, inl, inr}
use Rattle.std.specs.Prelude.{ℤ, pos, ◌^◌, OnOk, IfErr}
use Rattle.std.specs.declared.result.Result.{Result}
use Rattle.std.specs.declared.result.Result.TheVariants.{Ok, Err}
use Rattle.gd_scale.specs.Scale.{Scale}
use Rattle.gd_rules.specs.Question.{Question}
use Rattle.gd_rules.specs.Schedule.{IsAllowed, HasBetterTotals}
use Rattle.gd_rules.specs.Spread.{IsBest}
use Rattle.gd_rules.specs.Priced.{price}
use Rattle.gd_rules.specs.Tariff.{IsPricedByTariff, IsPricedByClasses, tariff, tariff_unit, class_unit}
use Rattle.gd_scale.specs.Words.{words, words_fit}
use Rattle.gd_scale.specs.Sizes.{both_fit}
use Rattle.gd_rules.proofs.Better as Better
use Rattle.gd_rules.proofs.Duality as Duality
use Rattle.gd_scale.proofs.Words.{words_lawful}
use Rattle.gd_rules.proofs.Tariff.{class_falls}
use Rattle.gd_schedule.proofs.Faults.{broken}
use Rattle.gd_certificate.specs.Exact.{Passes, Explains}
use Rattle.gd_certificate.specs.declared.CertFault.{CertFault}
use Rattle.gd_certificate.specs.declared.CertFault.TheVariants.{Shape, Broken, PriceTooLarge, PriceOnSlack, Underfilled, Overfilled, OutOfMemory}

pub on_ok : {A E : Type 0} {P Q : Type 0} (r : Result A E) → (P → Q) → OnOk r P → OnOk r Q
on_ok (Ok x) f h = f h
on_ok (Err e) f h = tt

pub on_err : {A E : Type 0} {P Q : E → Type 0} (r : Result A E) → ((e : E) → P e → Q e) → IfErr r P → IfErr r Q
on_err (Ok x) f h = tt
on_err (Err e) f h = f e h

-- A fault that is told of a certificate that passes is want of memory.
pub only_memory : {V : Type 0} (s : Scale V) (within : ℤ → V → Bool) (unit : ℕ → ℕ → V) (q : Question) (schedule : List ℕ) (prices : List V) → Passes s within unit q schedule prices → (fault : CertFault) → Explains s within unit q schedule prices fault → fault ≡ OutOfMemory
only_memory s within unit q x prices p Shape (inl h) = absurd (h p.allowed.shape)
only_memory s within unit q x prices p Shape (inr h) = absurd (h p.priced.shape)
only_memory s within unit q x prices p (Broken b) h = absurd (broken q x b h.1 h.2 p.allowed)
only_memory s within unit q x prices p (PriceTooLarge e) h = absurd (h.1.1 (p.small e.0 h.1.0))
only_memory s within unit q x prices p (PriceOnSlack e) h = absurd (h.2.1 (p.priced.clears e.0 h.2.0))
only_memory s within unit q x prices p (Underfilled i) h = absurd (h.3.1 (p.priced.next i h.3.0))
only_memory s within unit q x prices p (Overfilled i) h = absurd (h.4.1 (p.priced.last i h.4.0))
only_memory s within unit q x prices p OutOfMemory h = refl

both_true : (a b : Bool) → (a && b) ≡ true → (a ≡ true) × (b ≡ true)
both_true true b h = (refl, h)
both_true false b h = cc

true_both : (a b : Bool) → a ≡ true → b ≡ true → (a && b) ≡ true
true_both true b h k = k
true_both false b h k = cc

abbrev pub pair_fits : ℤ → (ℕ → ℤ) × (ℕ → ℤ) → Bool
pair_fits = both_fit (words_fit 8) (words_fit 8)

module _ (q : Question) (schedule : List ℕ) (prices : List ((ℕ → ℤ) × (ℕ → ℤ))) where
  -- Passing at the tariff's cost is being allowed and priced by the tariff.
  pub tariff_of : Passes tariff pair_fits tariff_unit q schedule prices → IsAllowed q schedule × IsPricedByTariff q schedule prices
  tariff_of p = (
    p.allowed,
    record {
      small = λ e h. both_true (words_fit 8 (pos (2 ^ 40)) (price tariff prices e).0) (words_fit 8 (pos (2 ^ 40)) (price tariff prices e).1) (p.small e (subst (λ n. e < n) p.priced.shape h));
      priced = p.priced;
    },
  )

  pub of_tariff : IsAllowed q schedule → IsPricedByTariff q schedule prices → Passes tariff pair_fits tariff_unit q schedule prices
  of_tariff a p = record {
    allowed = a;
    small = λ e h. let two = p.small e (subst (λ n. e < n) (sym p.priced.shape) h) in true_both (words_fit 8 (pos (2 ^ 40)) (price tariff prices e).0) (words_fit 8 (pos (2 ^ 40)) (price tariff prices e).1) two.0 two.1;
    priced = p.priced;
  }

  pub best : Passes tariff pair_fits tariff_unit q schedule prices → IsBest q schedule
  best p = Better.prices_show_best q schedule prices p.allowed p.priced

module _ (q : Question) (schedule : List ℕ) (prices : List (ℕ → ℤ)) where
  pub classes_of : Passes (words 8) (words_fit 8) class_unit q schedule prices → IsAllowed q schedule × IsPricedByClasses q schedule prices
  classes_of p = (
    p.allowed,
    record {
      small = λ e h. p.small e (subst (λ n. e < n) p.priced.shape h);
      priced = p.priced;
    },
  )

  pub of_classes : IsAllowed q schedule → IsPricedByClasses q schedule prices → Passes (words 8) (words_fit 8) class_unit q schedule prices
  of_classes a p = record {
    allowed = a;
    small = λ e h. p.small e (subst (λ n. e < n) (sym p.priced.shape) h);
    priced = p.priced;
  }

  pub best_by_classes : Passes (words 8) (words_fit 8) class_unit q schedule prices → (other : List ℕ) → IsAllowed q other → HasBetterTotals q other schedule → ⊥
  best_by_classes p other a b = Duality.weak_duality (words 8) (words_lawful 8) class_unit class_falls q schedule prices other p.allowed p.priced a (Better.totals_above q other schedule b)
