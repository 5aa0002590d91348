mod Blanks
mod Building
mod Spelling
