-- The laws of each order stand as lemmas; what it compares is found by cases.
use Rattle.rank.specs.Laws.{spread_order, standing_order}
use Rattle.rank.proofs.orders.both_orders_are_strict.Goals as goal

pub returns-clause-spreads : goal.returns-clause-spreads
returns-clause-spreads c = spread_order

pub returns-clause-standings : goal.returns-clause-standings
returns-clause-standings c = standing_order
