-- Why playing a job stops, by why its parts stop.
use Rattle.std.specs.Prelude.{ℕ}
use Rattle.dot_emulator.specs.declared.emulator.EmulatorStop.{EmulatorStop}
use Rattle.dot_emulator.specs.declared.emulator.EmulatorStop.TheVariants as emulator
use Rattle.escp2_definitions.specs.declared.stops.JobStop.TheVariants as job
use Rattle.escp2_reader.specs.declared.feed.FeedStop.{FeedStop}
use Rattle.escp2_reader.specs.declared.feed.FeedStop.TheVariants as feed
use Rattle.job_player.specs.declared.player.PlayStop.{PlayStop}
use Rattle.job_player.specs.declared.player.PlayStop.TheVariants as stop

-- why it stops where the feed of its commands stops
abbrev pub feed_stop : FeedStop → PlayStop
feed_stop (feed.Job offset cause) = stop.Job offset cause
feed_stop feed.Read = stop.Read

-- why it stops at a command that the emulator does not run
abbrev pub emulator_stop : ℕ → EmulatorStop → PlayStop
emulator_stop at (emulator.Refused fault) = stop.Job at (job.Machine fault)
emulator_stop at emulator.Memory = stop.Memory
