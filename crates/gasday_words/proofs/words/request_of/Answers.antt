use Rattle.std.proofs.Common.{map}
use Rattle.gasday_words.proofs.Forms.{refuses_checks, refuses_clashes, refuses_numbers, takes_answers, takes_days, takes_files, takes_forms, takes_helps, takes_rounds, takes_texts, takes_versions, takes_waits}
use Rattle.gasday_words.proofs.words.request_of.Goals as goal

pub returns-clause-forms : goal.returns-clause-forms
returns-clause-forms g c = takes_forms (map g.S.AsStr.text c.args.words.now) c.request_by_clap.result (record {
  meaning = c.request_by_clap.ensures.meaning;
  faultless = c.request_by_clap.ensures.faultless;
  taken = c.request_by_clap.ensures.taken;
  faults = c.request_by_clap.ensures.faults;
})

pub returns-clause-texts : goal.returns-clause-texts
returns-clause-texts g c = takes_texts (map g.S.AsStr.text c.args.words.now) c.request_by_clap.result (record {
  meaning = c.request_by_clap.ensures.meaning;
  faultless = c.request_by_clap.ensures.faultless;
  taken = c.request_by_clap.ensures.taken;
  faults = c.request_by_clap.ensures.faults;
})

pub returns-clause-answers : goal.returns-clause-answers
returns-clause-answers g c = takes_answers (map g.S.AsStr.text c.args.words.now) c.request_by_clap.result (record {
  meaning = c.request_by_clap.ensures.meaning;
  faultless = c.request_by_clap.ensures.faultless;
  taken = c.request_by_clap.ensures.taken;
  faults = c.request_by_clap.ensures.faults;
})

pub returns-clause-checks : goal.returns-clause-checks
returns-clause-checks g c = refuses_checks (map g.S.AsStr.text c.args.words.now) c.request_by_clap.result (record {
  meaning = c.request_by_clap.ensures.meaning;
  faultless = c.request_by_clap.ensures.faultless;
  taken = c.request_by_clap.ensures.taken;
  faults = c.request_by_clap.ensures.faults;
})

pub returns-clause-files : goal.returns-clause-files
returns-clause-files g c = takes_files (map g.S.AsStr.text c.args.words.now) c.request_by_clap.result (record {
  meaning = c.request_by_clap.ensures.meaning;
  faultless = c.request_by_clap.ensures.faultless;
  taken = c.request_by_clap.ensures.taken;
  faults = c.request_by_clap.ensures.faults;
})

pub returns-clause-days : goal.returns-clause-days
returns-clause-days g c = takes_days (map g.S.AsStr.text c.args.words.now) c.request_by_clap.result (record {
  meaning = c.request_by_clap.ensures.meaning;
  faultless = c.request_by_clap.ensures.faultless;
  taken = c.request_by_clap.ensures.taken;
  faults = c.request_by_clap.ensures.faults;
})

pub returns-clause-rounds : goal.returns-clause-rounds
returns-clause-rounds g c = takes_rounds (map g.S.AsStr.text c.args.words.now) c.request_by_clap.result (record {
  meaning = c.request_by_clap.ensures.meaning;
  faultless = c.request_by_clap.ensures.faultless;
  taken = c.request_by_clap.ensures.taken;
  faults = c.request_by_clap.ensures.faults;
})

pub returns-clause-numbers : goal.returns-clause-numbers
returns-clause-numbers g c = refuses_numbers (map g.S.AsStr.text c.args.words.now) c.request_by_clap.result (record {
  meaning = c.request_by_clap.ensures.meaning;
  faultless = c.request_by_clap.ensures.faultless;
  taken = c.request_by_clap.ensures.taken;
  faults = c.request_by_clap.ensures.faults;
})

pub returns-clause-waits : goal.returns-clause-waits
returns-clause-waits g c = takes_waits (map g.S.AsStr.text c.args.words.now) c.request_by_clap.result (record {
  meaning = c.request_by_clap.ensures.meaning;
  faultless = c.request_by_clap.ensures.faultless;
  taken = c.request_by_clap.ensures.taken;
  faults = c.request_by_clap.ensures.faults;
})

pub returns-clause-clashes : goal.returns-clause-clashes
returns-clause-clashes g c = refuses_clashes (map g.S.AsStr.text c.args.words.now) c.request_by_clap.result (record {
  meaning = c.request_by_clap.ensures.meaning;
  faultless = c.request_by_clap.ensures.faultless;
  taken = c.request_by_clap.ensures.taken;
  faults = c.request_by_clap.ensures.faults;
})

pub returns-clause-helps : goal.returns-clause-helps
returns-clause-helps g c = takes_helps (map g.S.AsStr.text c.args.words.now) c.request_by_clap.result (record {
  meaning = c.request_by_clap.ensures.meaning;
  faultless = c.request_by_clap.ensures.faultless;
  taken = c.request_by_clap.ensures.taken;
  faults = c.request_by_clap.ensures.faults;
})

pub returns-clause-versions : goal.returns-clause-versions
returns-clause-versions g c = takes_versions (map g.S.AsStr.text c.args.words.now) c.request_by_clap.result (record {
  meaning = c.request_by_clap.ensures.meaning;
  faultless = c.request_by_clap.ensures.faultless;
  taken = c.request_by_clap.ensures.taken;
  faults = c.request_by_clap.ensures.faults;
})
