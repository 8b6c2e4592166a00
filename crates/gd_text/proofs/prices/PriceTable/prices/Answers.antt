use Rattle.std.proofs.Common.{rules, ◌≡◌, ◌∙◌, true, inl, inr, subst, sym, ℕ}
use Rattle.std.specs.Result.{is_ok}
use Rattle.gd_cost.specs.declared.lex.Lex.{Lex}
use Rattle.gd_cost.specs.declared.pair.Pair.{Pair}
use Rattle.gd_text.specs.Prices.{IsPrice}
use Rattle.gd_text.proofs.PriceLists.{stands}
use Rattle.gd_text.proofs.prices.PriceTable.prices.Goals as goal

pub elements-preserved : goal.elements-preserved
elements-preserved c =
    let good : is_ok c.push.result ≡ true = search rules in
    let items = rw good at c.push.ensures.items in
    let table = c.args.self.now in
    record {
      long = search rules;
      each = λ e p h.
          elim (stands c.elements.prices.items c.price.result p e (rw items at h)) [
            | inl old ↦ c.elements.invariant.each e p old
            | inr last ↦ subst (λ (k : ℕ). IsPrice table k p) (sym (last.0 ∙ c.elements.invariant.long)) (subst (λ (q : Pair (Lex 8) (Lex 8)). IsPrice table c.elements.element q) last.1 c.price.ensures)
          ];
    }
