-- the words of the crate, in one place
mod Common
mod Words
mod EachCommand
mod FormLaws
mod ReportLaws
