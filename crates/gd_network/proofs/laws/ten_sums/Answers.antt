use Rattle.gd_network.proofs.Tens.{most_ten, least_ten, part_ten}
use Rattle.gd_network.proofs.laws.ten_sums.Goals as goal

pub returns-clause-most : goal.returns-clause-most
returns-clause-most c = most_ten

pub returns-clause-least : goal.returns-clause-least
returns-clause-least c = least_ten

pub returns-clause-parts : goal.returns-clause-parts
returns-clause-parts c = part_ten
