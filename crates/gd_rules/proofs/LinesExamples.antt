-- Lines and nominations at a worked example.
use Rattle.std.proofs.Common.{◌≡◌, List, [], ◌∷◌, length, refl}
use Rattle.std.specs.Prelude.{Some, None, codes}
use Rattle.gd_rules.specs.Lines.{Key, Nomination, lines_of, line_key, find, committed, intake}
use Rattle.gd_rules.specs.Lists.{nominated, numbered_intake, lines_until, class_of_line}

firm : Key
firm = record { contract = codes "FIRM"; «package» = codes "P"; origin = codes "R1"; dest = codes "D1" }

spare : Key
spare = record firm { «package» = codes "Q" }

interruptible : Key
interruptible = record firm { contract = codes "INT" }

-- For Timely 70 on a line of INT and 50 on one of FIRM, which is raised to 90 and then lowered to 60; for Evening 20 on another package of FIRM, and nothing more of INT; for Intraday 2 FIRM's first line is lowered to 40.
ns : List Nomination
ns =
    record { key = interruptible; cycle = 1; class = 4; quantity = 70 }
    ∷ record { key = firm; cycle = 1; class = 1; quantity = 50 }
    ∷ record { key = firm; cycle = 1; class = 1; quantity = 90 }
    ∷ record { key = firm; cycle = 1; class = 1; quantity = 60 }
    ∷ record { key = spare; cycle = 2; class = 1; quantity = 20 }
    ∷ record { key = interruptible; cycle = 2; class = 4; quantity = 0 }
    ∷ record { key = firm; cycle = 4; class = 1; quantity = 40 } ∷ []

-- lines are numbered from 0 as they come
lines : (lines_of ns ≡ interruptible ∷ firm ∷ spare ∷ []) × (find ns firm ≡ Some 1) × (line_key ns 2 ≡ spare) × (find ns (record firm { dest = codes "DX" }) ≡ None)
unfolding ns firm spare interruptible
lines = (refl, refl, refl, refl)

-- two of them are nominated for Timely, and all for Evening
first : (lines_until ns 1 ≡ interruptible ∷ firm ∷ []) × (length (lines_until ns 2) ≡ 3)
unfolding ns firm spare interruptible
first = (refl, refl)

-- the last quantity counts, not the greatest, and that of a later cycle not yet
last : (nominated ns firm 1 ≡ 60) × (nominated ns firm 3 ≡ 60) × (nominated ns firm 4 ≡ 40) × (nominated ns firm 5 ≡ 40) × (nominated ns spare 1 ≡ 0) × (nominated ns interruptible 1 ≡ 70) × (nominated ns interruptible 2 ≡ 0)
unfolding ns firm spare interruptible
last = (refl, refl, refl, refl, refl, refl, refl)

-- 40 and 20, each line once
together : (committed ns (codes "FIRM") ≡ 60) × (committed ns (codes "INT") ≡ 0) × (committed ns (codes "NONE") ≡ 0)
unfolding ns firm spare interruptible
together = (refl, refl, refl)

-- each nomination stands in the intake of its cycle
intakes : (numbered_intake ns 1 ≡ (Some 0, 70) ∷ (Some 1, 50) ∷ (Some 1, 90) ∷ (Some 1, 60) ∷ []) × (numbered_intake ns 2 ≡ (Some 2, 20) ∷ (Some 0, 0) ∷ []) × (numbered_intake ns 3 ≡ []) × (length (intake ns 4) ≡ 1)
unfolding ns firm spare interruptible
intakes = (refl, refl, refl, refl)

classes : (class_of_line ns firm ≡ 1) × (class_of_line ns interruptible ≡ 4)
unfolding ns firm spare interruptible
classes = (refl, refl)
