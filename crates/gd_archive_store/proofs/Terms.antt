-- What the tests of a schema read adds up to.
use Rattle.std.proofs.Common.{◌≡◌, ℕ, ℤ, pos, zero, suc, ◌≤◌, ◌<◌, List, [], ◌∷◌, codes, length, slice_index_or, arith, refl, ap, ◌∙◌}
use Rattle.sqlite_value.specs.declared.value.Value.TheVariants.{Int}
use Rattle.sqlite_sql.specs.Term.{Term, lit, col, op2}
use Rattle.sqlite_sql.specs.declared.ops.BinaryOp.{BinaryOp}
use Rattle.sqlite_schema.specs.declared.code.Op.{Op}
use Rattle.sqlite_schema.specs.declared.code.Op.TheVariants.{Literal, Column, Unary, Binary, Case}
use Rattle.sqlite_schema.specs.Code.{op_term, term_to, terms_in}
use Rattle.sqlite_schema.specs.declared.schema.Table.{Table}
use Rattle.sqlite_schema.specs.declared.schema.Index.{Index}
use Rattle.sqlite_schema.specs.declared.schema.Schema.{Schema}
use Rattle.sqlite_schema.specs.declared.schema.View.{View}
use Rattle.std.specs.Fmt.{digits}
use Rattle.gd_archive_store.specs.Nodes.{node, IsNumber, IsRule}
use Rattle.gd_archive_store.specs.Tables.{is_number, is_rule, archive, posting, posting2, key_index, version_1, version_2}

-- a node that stands for a column or a number is that
column_whole : (ops : List Op) (depth at place : ℕ) → term_to ops depth at ≡ col 1 place → (node ops at ≡ Column 1 place) × (1 ≤ depth)
column_whole ops zero at place h = absurd cc
column_whole ops (suc depth) at place h = (by_node (node ops at) h, omega arith)
  where
    by_node : (o : Op) → op_term (term_to ops depth) o ≡ col 1 place → o ≡ Column 1 place
    by_node (Literal v) e = absurd cc
    by_node (Column slot column) e = cc
    by_node (Unary op a) e = absurd cc
    by_node (Binary op a b) e = absurd cc
    by_node (Case t a b) e = absurd cc

literal_whole : (ops : List Op) (depth at : ℕ) (n : ℤ) → term_to ops depth at ≡ lit (Int n) → node ops at ≡ Literal (Int n)
literal_whole ops zero at n h = absurd cc
literal_whole ops (suc depth) at n h = by_node (node ops at) h
  where
    by_node : (o : Op) → op_term (term_to ops depth) o ≡ lit (Int n) → o ≡ Literal (Int n)
    by_node (Literal v) e = cc
    by_node (Column slot column) e = absurd cc
    by_node (Unary op a) e = absurd cc
    by_node (Binary op a b) e = absurd cc
    by_node (Case t a b) e = absurd cc

-- a node that stands for two terms under an operation has operands that stand for these
record HasOperands (ops : List Op) (depth : ℕ) (o : Op) (op : BinaryOp) (x y : Term) : Type 0 where
  below : ℕ
  deep : depth ≡ suc below
  first : ℕ
  second : ℕ
  is : o ≡ Binary op first second
  left : term_to ops below first ≡ x
  right : term_to ops below second ≡ y

operands_whole : (ops : List Op) (depth at : ℕ) (op : BinaryOp) (x y : Term) → term_to ops depth at ≡ op2 op x y → HasOperands ops depth (node ops at) op x y
operands_whole ops zero at op x y h = absurd cc
operands_whole ops (suc depth) at op x y h = by_node (node ops at) h
  where
    by_node : (o : Op) → op_term (term_to ops depth) o ≡ op2 op x y → HasOperands ops (suc depth) o op x y
    by_node (Literal v) e = absurd cc
    by_node (Column slot column) e = absurd cc
    by_node (Unary o a) e = absurd cc
    by_node (Binary o a b) e = record { below = depth; deep = refl; first = a; second = b; is = cc; left = cc; right = cc }
    by_node (Case t a b) e = absurd cc

number_whole : (ops : List Op) (depth at place : ℕ) (n : ℤ) → term_to ops depth at ≡ is_number place n → IsNumber ops at place n × (2 ≤ depth)
number_whole ops depth at place n h =
    let it = operands_whole ops depth at _ _ _ h in
    let column = column_whole ops it.below it.first place it.left in
    ((it.first, it.second, it.is, column.0, literal_whole ops it.below it.second n it.right), omega (arith, column.1, it.deep))

rule_whole : (ops : List Op) (depth at : ℕ) → term_to ops depth at ≡ is_rule → IsRule ops at × (3 ≤ depth)
rule_whole ops depth at h =
    let it = operands_whole ops depth at _ _ _ h in
    let first = number_whole ops it.below it.first 5 (pos 1) it.left in
    let second = number_whole ops it.below it.second 5 (pos 2) it.right in
    ((it.first, it.second, it.is, first.0, second.0), omega (arith, first.1, it.deep))

-- from each depth on that reaches its nodes, it stands for its term
number_holds : (ops : List Op) (at place : ℕ) (n : ℤ) (depth : ℕ) → 2 ≤ depth → IsNumber ops at place n → term_to ops depth at ≡ is_number place n
number_holds ops at place n zero deep h = absurd (omega (arith, deep))
number_holds ops at place n (suc zero) deep h = absurd (omega (arith, deep))
number_holds ops at place n (suc (suc depth)) deep h = rw (h.2, h.3, h.4) refl

rule_holds : (ops : List Op) (at : ℕ) (depth : ℕ) → 3 ≤ depth → IsRule ops at → term_to ops depth at ≡ is_rule
rule_holds ops at zero deep h = absurd (omega (arith, deep))
rule_holds ops at (suc depth) deep h =
    rw (h.2, number_holds ops h.0 5 (pos 1) depth (omega (arith, deep)) h.3, number_holds ops h.1 5 (pos 2) depth (omega (arith, deep)) h.4) refl

alone : (roots : List ℕ) → 1 ≤ length roots → length roots < 2 → roots ≡ slice_index_or roots 0 0 ∷ []
alone [] some low = absurd (omega (arith, some))
alone (r ∷ []) some low = refl
alone (r ∷ s ∷ roots) some low = absurd (omega (arith, low))

one_term : (ops : List Op) (roots : List ℕ) (t : Term) → terms_in ops roots ≡ t ∷ [] → (length roots ≡ 1) × (term_to ops (length ops) (slice_index_or roots 0 0) ≡ t)
one_term ops [] t h = absurd cc
one_term ops (r ∷ []) t h = (refl, cc)
one_term ops (r ∷ s ∷ roots) t h = absurd cc

-- the one check of a list of nodes
pub one_check : (ops : List Op) (roots : List ℕ) → 1 ≤ length roots → length roots < 2 → 2 ≤ length ops → IsNumber ops (slice_index_or roots 0 0) 0 (pos 1) → terms_in ops roots ≡ is_number 0 (pos 1) ∷ []
one_check ops roots some low deep h = ap (terms_in ops) (alone roots some low) ∙ ap (λ x. x ∷ []) (number_holds ops (slice_index_or roots 0 0) 0 (pos 1) (length ops) deep h)

pub one_whole : (ops : List Op) (roots : List ℕ) → terms_in ops roots ≡ is_number 0 (pos 1) ∷ [] → (length roots ≡ 1) × (2 ≤ length ops) × IsNumber ops (slice_index_or roots 0 0) 0 (pos 1)
one_whole ops roots h =
    let it = one_term ops roots _ h in
    let is = number_whole ops (length ops) (slice_index_or roots 0 0) 0 (pos 1) it.1 in
    (it.0, is.1, is.0)

pub rule_check : (ops : List Op) (roots : List ℕ) → 1 ≤ length roots → length roots < 2 → 3 ≤ length ops → IsRule ops (slice_index_or roots 0 0) → terms_in ops roots ≡ is_rule ∷ []
rule_check ops roots some low deep h = ap (terms_in ops) (alone roots some low) ∙ ap (λ x. x ∷ []) (rule_holds ops (slice_index_or roots 0 0) (length ops) deep h)

pub rule_check_whole : (ops : List Op) (roots : List ℕ) → terms_in ops roots ≡ is_rule ∷ [] → (length roots ≡ 1) × (3 ≤ length ops) × IsRule ops (slice_index_or roots 0 0)
rule_check_whole ops roots h =
    let it = one_term ops roots _ h in
    let is = rule_whole ops (length ops) (slice_index_or roots 0 0) it.1 in
    (it.0, is.1, is.0)

abbrev made : List Table → List Index → List View → Schema
made t i v = record { tables = t; indexes = i; views = v }

-- a schema is its tables, its indexes and its views
same_parts : (s o : Schema) → s.tables ≡ o.tables → s.indexes ≡ o.indexes → s.views ≡ o.views → s ≡ o
same_parts s o a b c = ap (λ t. made t s.indexes s.views) a ∙ ap (λ i. made o.tables i s.views) b ∙ ap (made o.tables o.indexes) c

pub schema_1 : (s : Schema) → s.tables ≡ archive ∷ (record posting { tree = 1 }) ∷ [] → s.indexes ≡ key_index (codes "sqlite_autoindex_posting_1") 1 ∷ [] → s.views ≡ [] → s ≡ version_1
unfolding digits
schema_1 s tables indexes views = same_parts s version_1 tables indexes views

pub schema_2 : (s : Schema) → s.tables ≡ archive ∷ (record posting { tree = 1 }) ∷ (record posting2 { tree = 3 }) ∷ []
    → s.indexes ≡ key_index (codes "sqlite_autoindex_posting_1") 1 ∷ key_index (codes "sqlite_autoindex_posting2_1") 3 ∷ [] → s.views ≡ [] → s ≡ version_2
unfolding digits
schema_2 s tables indexes views = same_parts s version_2 tables indexes views

pub tables_1 : (s : Schema) → s ≡ version_1 → s.tables ≡ archive ∷ (record posting { tree = 1 }) ∷ []
tables_1 s is = ap (λ (t : Schema). t.tables) is

pub indexes_1 : (s : Schema) → s ≡ version_1 → s.indexes ≡ key_index (codes "sqlite_autoindex_posting_1") 1 ∷ []
unfolding digits
indexes_1 s is = ap (λ (t : Schema). t.indexes) is

pub tables_2 : (s : Schema) → s ≡ version_2 → s.tables ≡ archive ∷ (record posting { tree = 1 }) ∷ (record posting2 { tree = 3 }) ∷ []
tables_2 s is = ap (λ (t : Schema). t.tables) is

pub indexes_2 : (s : Schema) → s ≡ version_2 → s.indexes ≡ key_index (codes "sqlite_autoindex_posting_1") 1 ∷ key_index (codes "sqlite_autoindex_posting2_1") 3 ∷ []
unfolding digits
indexes_2 s is = ap (λ (t : Schema). t.indexes) is
