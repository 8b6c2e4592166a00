-- The same of a search among links, as it is kept.
use Rattle.std.specs.Prelude.{ℕ, ◌*◌, ◌<◌, ℤ, Bool, List, length, map}
use Rattle.gd_scale.specs.Scale.{Scale}
use Rattle.gd_labels.specs.Links.{AreLinks, most_gain}
use Rattle.gd_labels.specs.Findings.{IsStill, IsGaining}
use Rattle.gd_labels.specs.Events.{AreEvents, AvoidsAt, reached_at, improves_at, slack}
use Rattle.gd_labels.specs.declared.Links.{Links}
use Rattle.gd_labels.specs.declared.search.Search.{Search}
use Rattle.gd_labels.specs.declared.sweep.Swept.{Swept}
use Rattle.gd_labels.specs.declared.sweep.Swept.TheVariants.{Still, Raised, Closed}

-- The links join n nodes, and gain little.
abbrev pub Join : {C V : Type 0} → Scale V → (ℤ → V → Bool) → (C → V) → ℕ → Links C → Type 0
Join s within meaning n l = AreLinks s within n l.from.items l.to.items (map meaning l.gain.items)

-- The search has gone along these links.
abbrev pub IsSearch : {C V : Type 0} → Scale V → (ℤ → V → Bool) → (C → V) → Links C → Search C → Type 0
IsSearch s within meaning l x =
    AreEvents s within l.from.items l.to.items (map meaning l.gain.items)
    x.node.items x.before.items x.link.items x.current.items (map meaning x.label.items)

-- What taking link i would make of the label at its end.
abbrev pub reached : {C V : Type 0} → Scale V → (C → V) → Links C → Search C → ℕ → V
reached s meaning l x i = reached_at s l.from.items (map meaning l.gain.items) (map meaning x.label.items) i

-- Whether that would raise it.
abbrev pub improves : {C V : Type 0} → Scale V → (C → V) → Links C → Search C → ℕ → Bool
improves s meaning l x i =
    improves_at s l.from.items l.to.items (map meaning l.gain.items) (map meaning x.label.items) i

-- The walk to the start of link i does not lead to its end.
abbrev pub Avoids : {C : Type 0} → Links C → Search C → ℕ → Type 0
Avoids l x i = AvoidsAt l.from.items l.to.items x.node.items x.before.items x.current.items i

-- How far the labels can still rise, of n nodes.
abbrev pub room : {C V : Type 0} → (ℕ → ℕ) → (ℕ → V → ℕ) → (C → V) → ℕ → Search C → ℕ
room size rank meaning n x = slack size rank (most_gain * n) (map meaning x.label.items)

-- No link improves.
abbrev pub IsSettled : {C V : Type 0} → Scale V → (C → V) → Links C → Search C → Type 0
IsSettled s meaning l x = IsStill s l.from.items l.to.items (map meaning l.gain.items) (map meaning x.label.items)

-- The links make a closed walk that gains.
abbrev pub Gains : {C V : Type 0} → Scale V → (C → V) → Links C → List ℕ → Type 0
Gains s meaning l walk = IsGaining s l.from.items l.to.items (map meaning l.gain.items) walk

-- What a sweep over all links leaves: no link improves, or the labels can rise less far, or the walk gains.
abbrev pub AfterSweep : {C V : Type 0} → Scale V → (ℕ → ℕ) → (ℕ → V → ℕ) → (C → V) → Links C
    → Search C → Search C → List ℕ → Swept → Type 0
AfterSweep s size rank meaning l old new walk Still = IsSettled s meaning l new
AfterSweep s size rank meaning l old new walk Raised =
    room size rank meaning (length old.current.items) new
    < room size rank meaning (length old.current.items) old
AfterSweep s size rank meaning l old new walk Closed = Gains s meaning l walk
