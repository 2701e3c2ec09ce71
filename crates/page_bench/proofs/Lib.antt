pub mod TimedPages
