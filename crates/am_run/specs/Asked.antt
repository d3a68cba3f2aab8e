-- What a command of the program says that it is asked.
use Rattle.std.specs.Prelude.{map, string_bytes}
use Rattle.am_run.specs.Forms as form
use Rattle.am_run.specs.commands.Link as link
use Rattle.am_run.specs.commands.Show as show
use Rattle.am_run.specs.commands.Check as check
use Rattle.am_run.specs.commands.Clusters as clusters
use Rattle.am_run.specs.commands.Meter as metering
use Rattle.am_run.specs.commands.Audit as audit
use Rattle.am_run.specs.commands.Loss as loss
use Rattle.am_run.specs.commands.Sim as sim
use Rattle.am_run.specs.declared.commands.link.LinkWords.{LinkWords}
use Rattle.am_run.specs.declared.commands.show.ShowWords.{ShowWords}
use Rattle.am_run.specs.declared.commands.check.CheckWords.{CheckWords}
use Rattle.am_run.specs.declared.commands.clusters.ClustersWords.{ClustersWords}
use Rattle.am_run.specs.declared.commands.meter.MeterWords.{MeterWords}
use Rattle.am_run.specs.declared.commands.audit.AuditWords.{AuditWords}
use Rattle.am_run.specs.declared.commands.loss.LossWords.{LossWords}
use Rattle.am_run.specs.declared.commands.sim.SimWords.{SimWords}
use Rattle.am_run.specs.declared.commands.Command.{Command}
use Rattle.am_run.specs.declared.commands.Command.TheVariants.{Link as LinkCommand, Show as ShowCommand, Check as CheckCommand, Clusters as ClustersCommand, Mark as MarkCommand, Strip as StripCommand, Meter as MeterCommand, Audit as AuditCommand, Loss as LossCommand, Sim as SimCommand}
use Rattle.am_chain.specs.Shown.{domain_file_shown}

-- what a `LinkWords` says
abbrev pub link_shown : LinkWords → link.Link
link_shown w = record {
  block = w.timing.block;
  shift = w.timing.delay_min;
  flow = w.flow;
  up = w.up.now;
  down = w.down.now;
}

-- what a `ShowWords` says
abbrev pub show_shown : ShowWords → show.Show
show_shown w = record { file = w.file.now }

-- what a `CheckWords` says
abbrev pub check_shown : CheckWords → check.Check
check_shown w = record { file = w.file.now }

-- what a `ClustersWords` says
abbrev pub clusters_shown : ClustersWords → clusters.Clusters
clusters_shown w = record { file = w.file.now }

-- what a `MeterWords` says
abbrev pub meter_shown : MeterWords → metering.Meter
meter_shown w = record { domain = w.domain.now; node = w.node.now }

-- what an `AuditWords` says
abbrev pub audit_shown : AuditWords → audit.Audit
audit_shown w = record { file = w.file.now }

-- what a `LossWords` says
abbrev pub loss_shown : LossWords → loss.Loss
loss_shown w = record { domain = w.domain.now; reports = map string_bytes w.reports.now }

-- what a `SimWords` says
abbrev pub sim_shown : SimWords → sim.Sim
sim_shown w = record { domain = w.domain.now; number = w.number; packets = w.packets }

-- what a `Command` says
abbrev pub command_shown : Command → form.Command
command_shown (LinkCommand w) = record { kind = form.Kind.Linking; asked = link_shown w }
command_shown (ShowCommand w) = record { kind = form.Kind.Showing; asked = show_shown w }
command_shown (CheckCommand w) = record { kind = form.Kind.Checking; asked = check_shown w }
command_shown (ClustersCommand w) = record { kind = form.Kind.Clustering; asked = clusters_shown w }
command_shown (MarkCommand w) = record { kind = form.Kind.MarkingPackets; asked = domain_file_shown w }
command_shown (StripCommand w) = record { kind = form.Kind.Stripping; asked = domain_file_shown w }
command_shown (MeterCommand w) = record { kind = form.Kind.Metering; asked = meter_shown w }
command_shown (AuditCommand w) = record { kind = form.Kind.Auditing; asked = audit_shown w }
command_shown (LossCommand w) = record { kind = form.Kind.Gathering; asked = loss_shown w }
command_shown (SimCommand w) = record { kind = form.Kind.Simulating; asked = sim_shown w }
