pub mod KeptJson
