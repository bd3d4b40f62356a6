use Rattle.install_list.specs.declared.statuses.InstallStatus.TheVariants as status
use Rattle.install_list.proofs.ReportLaws.{said}
use Rattle.install_list.proofs.reports.say_status.Goals as goal

pub returns-in-Unread : goal.returns-in-Unread
returns-in-Unread g c = said _ status.Unread _ _ _ _ c.in-Unread.is c.say-in-Unread.ensures

pub returns-in-Write : goal.returns-in-Write
returns-in-Write g c =
    said _ status.Write _ _ _ _ c.in-Write.is c.say.ensures

pub returns-in-Usage : goal.returns-in-Usage
returns-in-Usage g c = said _ status.Usage _ _ _ _ c.in-Usage.is c.say-in-Usage.ensures

pub returns-in-Memory : goal.returns-in-Memory
returns-in-Memory g c = said _ status.Memory _ _ _ _ c.in-Memory.is c.say-in-Memory.ensures

pub returns-in-Line : goal.returns-in-Line
returns-in-Line g c =
    said _ (status.Line c.in-Line.line c.in-Line.why) _ _ _ _ c.in-Line.is c.say_line.ensures
