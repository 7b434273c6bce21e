pub mod ReferenceViews
