use Rattle.std.proofs.Common.{◌≡◌, [], ◌∷◌, codes, IsTrue, ap, rules}
use Rattle.sqlite_schema.specs.declared.schema.Schema.{Schema}
use Rattle.gd_archive_store.specs.Tables.{archive, posting, key_index}
use Rattle.gd_archive_store.proofs.Terms.{schema_1, tables_1, indexes_1}
use Rattle.gd_archive_store.proofs.tables.is_version_1.Goals as goal

pub returns-then-are_indexes_1 : goal.returns-then-are_indexes_1
returns-then-are_indexes_1 c =
    let schema = c.args.schema.now in
    let tables : schema.tables ≡ archive ∷ (record posting { tree = 1 }) ∷ [] = search rules in
    let indexes : schema.indexes ≡ key_index (codes "sqlite_autoindex_posting_1") 1 ∷ [] = search rules in
    let holds : IsTrue c.is_empty.result → schema.views ≡ [] = search rules in
    let whole : schema.views ≡ [] → IsTrue c.is_empty.result = search rules in
    (λ b. schema_1 schema tables indexes (holds b), λ h. whole (ap (λ (s : Schema). s.views) h))

pub returns-else-are_indexes_1 : goal.returns-else-are_indexes_1
returns-else-are_indexes_1 c = (
  λ b. absurd (search rules),
  λ h.
      let tables : c.args.schema.now.tables ≡ archive ∷ (record posting { tree = 1 }) ∷ [] = tables_1 c.args.schema.now h in
      let indexes : c.args.schema.now.indexes ≡ key_index (codes "sqlite_autoindex_posting_1") 1 ∷ [] = indexes_1 c.args.schema.now h in
      search rules,
)
