-- Empty slots have no copies.
use Rattle.cpu_cache.proofs.Found.{copies_in-empty}
use Rattle.cpu_cache.proofs.cache.Cache.new.Goals as goal

pub returns : goal.returns
returns c = rw (c.in-Ok.ensures.items_if_clones_equal (λ y h. h)) (rw copies_in-empty)
