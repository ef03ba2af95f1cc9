pub mod KnownText
