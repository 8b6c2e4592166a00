use Rattle.std.proofs.Common.{◌≡◌, ◌||◌, length, rules, sym, ap, ◌∙◌}
use Rattle.gd_serving.specs.Seen.{seen}
use Rattle.gasday_live.proofs.Watching.{watched_gives, or_true, or_false}
use Rattle.gasday_live.proofs.watched.WatchedTakesLines.take_line.Goals as goal

pub returns-then-is_told_alone : goal.returns-then-is_told_alone
returns-then-is_told_alone g c =
    let old = c.args.given.now in
    let told : c.len-told.result ≡ length old.told.items = search rules in
    let kept : c.len-kept.result ≡ length old.replies.items = search rules in
    watched_gives c.args.self.now _ c.args.line.now (seen old) (seen c.take_line.new.given) c.len-told.result c.len-kept.result c.is_told_alone.result (or_true c.args.self.now.has_fault ∙ ap (λ b. c.args.self.now.has_fault || b) (sym c.if-is_told_alone.true)) told kept c.is_told_alone.ensures c.in_ok-take_line.ensures

pub returns-else-is_told_alone : goal.returns-else-is_told_alone
returns-else-is_told_alone g c =
    let old = c.args.given.now in
    let told : c.len-told.result ≡ length old.told.items = search rules in
    let kept : c.len-kept.result ≡ length old.replies.items = search rules in
    watched_gives c.args.self.now _ c.args.line.now (seen old) (seen c.take_line.new.given) c.len-told.result c.len-kept.result c.is_told_alone.result (or_false c.args.self.now.has_fault ∙ ap (λ b. c.args.self.now.has_fault || b) (sym c.if-is_told_alone.false)) told kept c.is_told_alone.ensures c.in_ok-take_line.ensures
