mod CheckSteps
mod KeySteps
mod PlaceSteps
mod RecordSteps
mod SectionSteps
