-- Why a run ended, by why the calls of a phase were not all made, or why a slot has no desk.
use Rattle.gd_office_part.specs.declared.threads.SendFault.{SendFault}
use Rattle.gd_office_part.specs.declared.threads.SendFault.TheVariants as sending
use Rattle.gd_desk.specs.declared.desk.DeskFault.{DeskFault}
use Rattle.gd_desk.specs.declared.desk.DeskFault.TheVariants as desk
use Rattle.gd_office_run.specs.declared.fault.RunFault.{RunFault}
use Rattle.gd_office_run.specs.declared.fault.RunFault.TheVariants as fault

abbrev pub fault_of_sending : SendFault → RunFault
fault_of_sending sending.OtherSlot = fault.TooMany
fault_of_sending sending.NoThread = fault.NoThread
fault_of_sending sending.OutOfMemory = fault.OutOfMemory

abbrev pub fault_of_desk : DeskFault → RunFault
fault_of_desk desk.NoThread = fault.NoThread
fault_of_desk desk.OutOfMemory = fault.OutOfMemory
