use Rattle.ras_events.proofs.HistoryLemmas.{account_by_history, event_by_history, event_by_news, news_account, news_behind, news_orders, orders_by_history, text_by_history}
use Rattle.ras_events.proofs.laws.event_laws.Goals as goal

pub returns-clause-news : goal.returns-clause-news
returns-clause-news c = news_account

pub returns-clause-news_orders : goal.returns-clause-news_orders
returns-clause-news_orders c = news_orders

pub returns-clause-fresh : goal.returns-clause-fresh
returns-clause-fresh c = news_behind

pub returns-clause-account : goal.returns-clause-account
returns-clause-account c = account_by_history

pub returns-clause-text : goal.returns-clause-text
returns-clause-text c = text_by_history

pub returns-clause-orders : goal.returns-clause-orders
returns-clause-orders c = orders_by_history

pub returns-clause-prepared : goal.returns-clause-prepared
returns-clause-prepared c = event_by_news

pub returns-clause-event : goal.returns-clause-event
returns-clause-event c = event_by_history
