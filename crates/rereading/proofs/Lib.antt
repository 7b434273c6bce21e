mod AllBytes
mod Ends
mod Going
mod Shared
mod Tries
mod WholeTexts
mod Windows
