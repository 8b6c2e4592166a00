-- One event more behind a walk.
use Rattle.std.proofs.Common.{◌≡◌, ℕ, suc, ◌+◌, ◌<◌, ◌≤◌, [], ◌∷◌, ◌++◌, length, take, get_or, slice_get, Some, None, sym, subst, ap, ◌∙◌, arith, ◌⊎◌, inl, inr}
use Rattle.std.proofs.lemmas.Option.{slice_get_cases, get_or_from_slice_get}
use Rattle.gd_machine.specs.declared.event.Event.{Event}
use Rattle.gd_machine.specs.declared.reply.Reply.{Reply}
use Rattle.gd_machine.specs.Day.{Day}
use Rattle.gd_machine.specs.History.{History}
use Rattle.gd_machine.specs.Machine.{IsLegal, IsAccepted, reply_of}
use Rattle.gd_machine.proofs.Times.{taken}
use Rattle.gd_book_part.specs.Kept.{AreTablesOf}
use Rattle.gd_book_part.specs.declared.tables.Tables.{Tables}

-- the pair of a place is there
there : (h : History) (at : ℕ) (d : Event × Reply) → at < length h → slice_get h at ≡ Some (get_or h at d)
there h at d within = go (slice_get_cases h at).1
  where
    go : ((p : Event × Reply) × (at < length h) × (slice_get h at ≡ Some p) × (get_or h at p ≡ p)) ⊎ ((length h ≤ at) × (slice_get h at ≡ None)) → slice_get h at ≡ Some (get_or h at d)
    go (inl q) = q.2 ∙ ap Some (sym (get_or_from_slice_get h at q.0 d q.2))
    go (inr q) = absurd (let past = q.0 in omega (arith, past, within))

pub accepted_at : (day : Day) (h : History) (at : ℕ) (d : Event × Reply) → IsLegal day h → at < length h → IsAccepted day (take at h) (get_or h at d)
accepted_at day h at d legal within = legal at (get_or h at d) (there h at d within)

pub replayed_more : (day : Day) (h : History) (at : ℕ) (d : Event × Reply) (u : Tables) → IsLegal day h → at < length h
    → AreTablesOf day u (take at h ++ ((get_or h at d).0, reply_of day (take at h) (get_or h at d).0) ∷ []) → AreTablesOf day u (take (at + 1) h)
replayed_more day h at d u legal within tables =
    let accepted = accepted_at day h at d legal within in
    let pair : take at h ++ ((get_or h at d).0, reply_of day (take at h) (get_or h at d).0) ∷ [] ≡ take at h ++ get_or h at d ∷ [] = ap (λ (r : Reply). take at h ++ ((get_or h at d).0, r) ∷ []) (sym accepted.1) in
    let next : suc at ≡ at + 1 = omega arith in
    subst (λ n. AreTablesOf day u (take n h)) next (subst (AreTablesOf day u) (pair ∙ sym (taken h at (get_or h at d) (there h at d within))) tables)
