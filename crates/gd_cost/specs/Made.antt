-- What values of the three kinds are made of.
use Rattle.std.specs.Prelude.{ℕ, ℤ, List}
use Rattle.gd_cost.specs.declared.one.One.{One}
use Rattle.gd_cost.specs.declared.lex.Lex.{Lex}
use Rattle.gd_cost.specs.declared.pair.Pair.{Pair}

abbrev pub number_of : One → ℤ
number_of x = x.number

-- The words in order, the one that decides first at the front.
abbrev pub list_of : {n : ℕ} → Lex n → List ℤ
list_of x = x.words

abbrev pub first_of : {A B : Type 0} → Pair A B → A
first_of x = x.first

abbrev pub second_of : {A B : Type 0} → Pair A B → B
second_of x = x.second
