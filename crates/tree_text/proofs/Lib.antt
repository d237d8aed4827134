mod GrewLaws
mod TypeLaws
mod ShownLaws
mod TextLaws
