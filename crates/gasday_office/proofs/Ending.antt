-- One row more of a phase.
use Rattle.std.specs.Prelude.{◌-◌, map}
use Rattle.std.proofs.Common.{◌≡◌, ℕ, List, [], ◌∷◌, ◌++◌, ap, sym, ◌∙◌}
use Rattle.std.proofs.lemmas.List.{map-append, append_assoc}
use Rattle.gd_text_part.specs.declared.row.EventRow.{EventRow}
use Rattle.gd_text_part.specs.declared.row.OfficeRow.TheVariants as office
use Rattle.gd_text_part.specs.declared.row.Row.{Row}
use Rattle.gd_text_part.specs.declared.row.Row.TheVariants as row
use Rattle.gasday_office.specs.declared.sessions.SessionText.{SessionText}
use Rattle.gasday_office.specs.declared.phases.PhaseText.{PhaseText}
use Rattle.gasday_office.specs.Phases.{Called, Round, session, phase, calls_before, phases_after, phases_with}

abbrev called : ℕ → List ℕ → List EventRow → Called
called slot party calls = record { slot = slot; party = party; calls = calls }

-- a session joins the phase
pub joins : (phases : List PhaseText) (sessions : List SessionText) (s : SessionText) (slot : ℕ) (party : List ℕ) (rows : List Row)
    → s.slot ≡ slot - 1 → s.party ≡ party → s.calls.items ≡ calls_before rows
    → phases_with phases sessions (row.Office (office.Session slot party) ∷ rows) ≡ phases_with phases (sessions ++ s ∷ []) rows
joins phases sessions s slot party rows e f g =
    ap (λ (l : List Called). map phase phases ++ phases_after l rows)
    (sym (map-append session sessions (s ∷ [])
    ∙ ap (λ n. map session sessions ++ called n s.party s.calls.items ∷ []) e
    ∙ ap (λ (p : List ℕ). map session sessions ++ called (slot - 1) p s.calls.items ∷ []) f
    ∙ ap (λ (l : List EventRow). map session sessions ++ called (slot - 1) party l ∷ []) g))

-- a desk's round ends it
pub ends : (phases : List PhaseText) (sessions : List SessionText) (p : PhaseText) (moment : ℕ) (rows : List Row)
    → p.sessions.items ≡ sessions → p.moment ≡ moment
    → phases_with phases sessions (row.Office (office.Desk moment) ∷ rows) ≡ phases_with (phases ++ p ∷ []) [] rows
ends phases sessions p moment rows e f =
    ap (λ (l : List SessionText). map phase phases ++ record { sessions = map session l; moment = moment } ∷ phases_after [] rows) (sym e)
    ∙ ap (λ n. map phase phases ++ record { sessions = map session p.sessions.items; moment = n } ∷ phases_after [] rows) (sym f)
    ∙ sym (append_assoc (map phase phases) (phase p ∷ []) (phases_after [] rows))
    ∙ ap (λ (l : List Round). l ++ phases_after [] rows) (sym (map-append phase phases (p ∷ [])))
