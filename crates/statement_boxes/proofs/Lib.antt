pub mod BoxLists
