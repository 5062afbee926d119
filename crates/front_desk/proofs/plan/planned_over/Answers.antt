use Rattle.front_desk.proofs.plan.planned_over.Goals as goal

pub write-requires : goal.write-requires
write-requires c = c.in_ok-certificate-in-Some.ensures.writable c.requires.cheap
