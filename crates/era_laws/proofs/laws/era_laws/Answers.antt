use Rattle.era_laws.proofs.EraLemmas.{accounts-along, each-counts, era-cut, histories-along, logs-along, logs-once-along, records-kept}
use Rattle.era_laws.proofs.EraOrderLemmas.{module-stands-along, modules-along, orders-along, page-stands-along, pages-along}
use Rattle.era_laws.proofs.PollLemmas.{era-polled, era-polled-whole}
use Rattle.era_laws.proofs.PrintedLemmas.{era-printed, printed-once}
use Rattle.era_laws.proofs.ReplayLemmas.{replayed-counts, replayed-same, replayed-together}
use Rattle.era_laws.proofs.laws.era_laws.Goals as goal

pub returns-clause-counts : goal.returns-clause-counts
returns-clause-counts c = each-counts

pub returns-clause-accounts : goal.returns-clause-accounts
returns-clause-accounts c = λ account here eras counts opens follow counted. accounts-along eras counts account here opens follow counted

pub returns-clause-histories : goal.returns-clause-histories
returns-clause-histories c = histories-along

pub returns-clause-logged : goal.returns-clause-logged
returns-clause-logged c = λ history here eras counts opens follow counted. logs-along eras counts history here opens follow counted

pub returns-clause-once : goal.returns-clause-once
returns-clause-once c = logs-once-along

pub returns-clause-printed : goal.returns-clause-printed
returns-clause-printed c = era-printed

pub returns-clause-printed_once : goal.returns-clause-printed_once
returns-clause-printed_once c = printed-once

pub returns-clause-ordered : goal.returns-clause-ordered
returns-clause-ordered c = orders-along

pub returns-clause-page : goal.returns-clause-page
returns-clause-page c = λ history here eras counts page opens follow counted. pages-along history here eras counts opens follow counted page

pub returns-clause-module : goal.returns-clause-module
returns-clause-module c = λ history here eras counts label opens follow counted row. modules-along history here eras counts opens follow counted label row

pub returns-clause-page_stands : goal.returns-clause-page_stands
returns-clause-page_stands c = λ history now here eras counts page opens follow counted of. page-stands-along history here eras counts opens follow counted now of page

pub returns-clause-module_stands : goal.returns-clause-module_stands
returns-clause-module_stands c = λ history now here eras counts label row opens follow counted of there.
    module-stands-along history here eras counts opens follow counted now of label row there

pub returns-clause-records : goal.returns-clause-records
returns-clause-records c = records-kept

pub returns-clause-cut : goal.returns-clause-cut
returns-clause-cut c = λ era r is next. era-cut era is r next

pub returns-clause-replayed : goal.returns-clause-replayed
returns-clause-replayed c = λ history undisturbed script here eras last now is of. replayed-counts history undisturbed script here eras last is now of

pub returns-clause-same : goal.returns-clause-same
returns-clause-same c = λ history undisturbed script here eras last now is facts of. replayed-same history undisturbed script here eras last is now facts of

pub returns-clause-together : goal.returns-clause-together
returns-clause-together c = λ history undisturbed script here eras last counts is counted. replayed-together history undisturbed script here eras last is counts counted

pub returns-clause-polled : goal.returns-clause-polled
returns-clause-polled c = λ script here era next between n m follow takes again counted less few.
    era-polled here era next between script n follow takes again counted m less few

pub returns-clause-polled_whole : goal.returns-clause-polled_whole
returns-clause-polled_whole c = λ script here era next between n m follow takes again counted whole all.
    era-polled-whole here era next between script n follow takes again counted m whole all
