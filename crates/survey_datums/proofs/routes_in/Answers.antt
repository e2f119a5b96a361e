-- `survey_datums::routes_in` meets its contract.
use Rattle.survey_datums.proofs.Answering.{told_twice, told_routes}
use Rattle.survey_datums.proofs.routes_in.Goals as goal

pub returns-then-some_twice : goal.returns-then-some_twice
returns-then-some_twice c =
    told_twice c.args.header.now c.requires c.all_times-times.result c.all_times-times.ensures c.some_twice.result c.some_twice.ensures c.if-some_twice.true
    c.refuse.result c.refuse.ensures c.refused.result c.refused.ensures

pub table_of-table-requires : goal.table_of-table-requires
table_of-table-requires c = (c.requires, c.all_times-times.ensures)

pub cards_of-cards-requires : goal.cards_of-cards-requires
cards_of-cards-requires c = c.distances-shifts.ensures

pub returns : goal.returns
returns c =
    told_routes c.args.header.now c.requires c.all_times-times.result c.all_times-times.ensures c.some_twice.result c.some_twice.ensures c.if-some_twice.false
    c.table_of-table.result c.table_of-table.ensures c.distances-shifts.result c.distances-shifts.ensures c.cards_of-cards.result c.cards_of-cards.ensures
    c.told.result c.told.ensures
