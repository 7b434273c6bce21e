pub mod OneMore
