use Rattle.trace_replay.specs.declared.endings.Status.TheVariants as status
use Rattle.trace_replay.proofs.ReportLaws.{said}
use Rattle.trace_replay.proofs.replays.report.Goals as goal

pub returns-in-ReadFault : goal.returns-in-ReadFault
returns-in-ReadFault g c = said _ status.ReadFault _ _ _ _ c.in-ReadFault.is c.say.ensures

pub returns-in-WriteFault : goal.returns-in-WriteFault
returns-in-WriteFault g c =
    said _ status.WriteFault _ _ _ _ c.in-WriteFault.is c.say-in-WriteFault.ensures

pub returns-in-Usage : goal.returns-in-Usage
returns-in-Usage g c = said _ status.Usage _ _ _ _ c.in-Usage.is c.say-in-Usage.ensures

pub returns-in-Memory : goal.returns-in-Memory
returns-in-Memory g c = said _ status.Memory _ _ _ _ c.in-Memory.is c.say-in-Memory.ensures

pub returns-in-Line : goal.returns-in-Line
returns-in-Line g c = said _ (status.Line c.in-Line.bad) _ _ _ _ c.in-Line.is c.say_line.ensures
