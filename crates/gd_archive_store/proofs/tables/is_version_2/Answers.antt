use Rattle.std.proofs.Common.{◌≡◌, [], ◌∷◌, codes, IsTrue, ap, rules}
use Rattle.sqlite_schema.specs.declared.schema.Schema.{Schema}
use Rattle.gd_archive_store.specs.Tables.{archive, posting, posting2, key_index}
use Rattle.gd_archive_store.proofs.Terms.{schema_2, tables_2, indexes_2}
use Rattle.gd_archive_store.proofs.tables.is_version_2.Goals as goal

pub returns-then-are_indexes_2 : goal.returns-then-are_indexes_2
returns-then-are_indexes_2 c =
    let schema = c.args.schema.now in
    let tables : schema.tables ≡ archive ∷ (record posting { tree = 1 }) ∷ (record posting2 { tree = 3 }) ∷ [] = search rules in
    let indexes : schema.indexes ≡ key_index (codes "sqlite_autoindex_posting_1") 1 ∷ key_index (codes "sqlite_autoindex_posting2_1") 3 ∷ [] = search rules in
    let holds : IsTrue c.is_empty.result → schema.views ≡ [] = search rules in
    let whole : schema.views ≡ [] → IsTrue c.is_empty.result = search rules in
    (λ b. schema_2 schema tables indexes (holds b), λ h. whole (ap (λ (s : Schema). s.views) h))

pub returns-else-are_indexes_2 : goal.returns-else-are_indexes_2
returns-else-are_indexes_2 c = (
  λ b. absurd (search rules),
  λ h.
      let tables : c.args.schema.now.tables ≡ archive ∷ (record posting { tree = 1 }) ∷ (record posting2 { tree = 3 }) ∷ [] = tables_2 c.args.schema.now h in
      let indexes : c.args.schema.now.indexes ≡ key_index (codes "sqlite_autoindex_posting_1") 1 ∷ key_index (codes "sqlite_autoindex_posting2_1") 3 ∷ [] = indexes_2 c.args.schema.now h in
      search rules,
)
