-- What one event more does to what the history tells.
use Rattle.std.proofs.Common.{◌≡◌, ℕ, max, false, List, [], ◌∷◌, ◌++◌, None}
use Rattle.std.proofs.lemmas.List.Sums.{fold-append}
use Rattle.gd_rules.specs.Question.{Element}
use Rattle.gd_units.specs.declared.service.End.{End}
use Rattle.gd_machine.specs.declared.event.Event.{Event}
use Rattle.gd_machine.specs.declared.reply.Reply.{Reply}
use Rattle.gd_machine.specs.History.{History, moment_of, last_stamp, frozen_after, is_frozen, cut_after, has_cut, waived_after, is_waived, response_after, response_of, elements_after, elements_in_force, schedules_after, schedules}

pub stamp_more : (h : History) (p : Event × Reply) → last_stamp (h ++ p ∷ []) ≡ max (last_stamp h) (moment_of p.0)
stamp_more h p = fold-append (λ stamp q. max stamp (moment_of q.0)) 0 h (p ∷ [])

pub frozen_more : (h : History) (p : Event × Reply) → is_frozen (h ++ p ∷ []) ≡ frozen_after (is_frozen h) p.0
frozen_more h p = fold-append (λ frozen q. frozen_after frozen q.0) false h (p ∷ [])

pub cut_more : (h : History) (p : Event × Reply) → has_cut (h ++ p ∷ []) ≡ cut_after (has_cut h) p.0
cut_more h p = fold-append (λ cut q. cut_after cut q.0) false h (p ∷ [])

pub waived_more : (line : ℕ) (h : History) (p : Event × Reply) → is_waived (h ++ p ∷ []) line ≡ waived_after line (is_waived h line) p.0
waived_more line h p = fold-append (λ waived q. waived_after line waived q.0) false h (p ∷ [])

pub response_more : (line : ℕ) (end : End) (h : History) (p : Event × Reply) → response_of (h ++ p ∷ []) line end ≡ response_after line end (response_of h line end) p.0
response_more line end h p = fold-append (λ response q. response_after line end response q.0) None h (p ∷ [])

pub elements_more : (elements : List Element) (h : History) (p : Event × Reply) → elements_in_force elements (h ++ p ∷ []) ≡ elements_after (elements_in_force elements h) p.0
elements_more elements h p = fold-append (λ es q. elements_after es q.0) elements h (p ∷ [])

pub schedules_more : (h : History) (p : Event × Reply) → schedules (h ++ p ∷ []) ≡ schedules_after (schedules h) p.0
schedules_more h p = fold-append (λ ss q. schedules_after ss q.0) ([] ∷ []) h (p ∷ [])
