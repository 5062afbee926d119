use Rattle.drawn_network.proofs.FaultlessFiles.{files_faultless}
use Rattle.drawn_network.proofs.StatedNetwork.{network_stated}
use Rattle.drawn_network.proofs.laws.drawn_files_are_good.Goals as goal

pub returns-clause-faultless : goal.returns-clause-faultless
returns-clause-faultless c = files_faultless

pub returns-clause-network : goal.returns-clause-network
returns-clause-network c = network_stated
