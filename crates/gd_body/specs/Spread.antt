-- A posting whose prices have no words of the spread.
use Rattle.std.specs.Prelude.{pos, map, replicate}
use Rattle.gd_rules.specs.Limits.{classes}
use Rattle.gd_cost.specs.declared.lex.Lex.{Lex}
use Rattle.gd_cost.specs.declared.pair.Pair.{Pair}
use Rattle.gd_board.specs.declared.posting.Posting.{Posting}

-- a price with its first eight words alone: the second eight are 0
abbrev pub first_words : Pair (Lex 8) (Lex 8) → Pair (Lex 8) (Lex 8)
first_words price = record price { second = record { words = replicate classes (pos 0) } }

-- the same posting, of whose prices the words of the spread are 0
abbrev pub without_spread : Posting → Posting
without_spread p = record p { prices = map first_words p.prices }
