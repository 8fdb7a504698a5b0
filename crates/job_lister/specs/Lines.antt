-- Why a listing stops, where its parts do.
use Rattle.escp2_reader.specs.declared.feed.FeedStop.{FeedStop}
use Rattle.escp2_reader.specs.declared.feed.FeedStop.TheVariants as feed
use Rattle.job_lister.specs.declared.lister.ListStop.{ListStop}
use Rattle.job_lister.specs.declared.lister.ListStop.TheVariants as stop

-- why a listing stops, where the feed of its commands does
abbrev pub feed_stop : FeedStop → ListStop
feed_stop (feed.Job offset cause) = stop.Job offset cause
feed_stop feed.Read = stop.Read
