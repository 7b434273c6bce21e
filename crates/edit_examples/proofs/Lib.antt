mod ComponentRows
mod EditedTexts
mod ScriptRows
mod SectionRows
mod TerminalRows
mod WiringRows
