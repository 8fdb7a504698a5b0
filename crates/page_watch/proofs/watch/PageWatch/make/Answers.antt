use Rattle.page_watch.proofs.Fed.{watched_none}
use Rattle.page_watch.proofs.watch.PageWatch.make.Goals as goal

pub returns : goal.returns
returns c = watched_none _ c.in_ok-make.ensures.anew c.in_ok-make.ensures.fed c.in_ok-make.ensures.is_open c.start.ensures
