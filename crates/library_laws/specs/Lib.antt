pub mod ShownText
