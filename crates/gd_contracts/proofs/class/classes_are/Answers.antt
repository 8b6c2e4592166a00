use Rattle.gd_contracts.proofs.ClassAnswers.{class_is}
use Rattle.gd_contracts.proofs.class.classes_are.Goals as goal

pub returns : goal.returns
returns c = λ holdings contract origin dest class known told. class_is holdings contract origin dest class known told
