use Rattle.mon_base.proofs.persistent.+put.Given as goal

abbrev pub decreases-put : goal.decreases-put
decreases-put l = l.depth
