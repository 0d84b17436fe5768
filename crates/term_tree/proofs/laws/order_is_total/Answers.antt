use Rattle.term_tree.proofs.OrderLaws.{order_total, order-equal}
use Rattle.term_tree.proofs.laws.order_is_total.Goals as goal

pub returns : goal.returns
returns c = record { total = order_total; exact = order-equal }
