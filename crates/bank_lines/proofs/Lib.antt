pub mod LogHeadLemmas
mod LogGroupLemmas
pub mod LogFilterLemmas
mod LogRangeLemmas
mod LogFoundLemmas
mod LogLawLemmas
pub mod NumeralLemmas
mod ReadBackLemmas
mod PartsLemmas
mod MarkLemmas
mod NameLemmas
mod WordLemmas
mod TextLemmas
mod RangeLemmas
pub mod TraceLawLemmas
pub mod KernelLemmas
mod KernelLawLemmas
mod KernelMarkLemmas
mod LogLineLemmas
mod StepLemmas
mod ConsoleLemmas
mod LinesLawLemmas
mod EventLemmas
mod EdacMarkLemmas
mod TwiceLemmas
mod NamingLemmas
pub mod CountLemmas
pub mod LogMarkLemmas
pub mod LogTextLemmas
mod EdacTextLemmas
mod PlainTextLemmas
mod PrintedLogLemmas
pub mod TraceHeadLemmas
