-- Words that stand beside theorems, each with its text: of patterns, texts and books (TextWords), of their faults (FaultWords), of the matcher and of
-- runs (EventWords), of the theorems on plain data (PlainWords), of checks (CheckWords); and the types that statements quantify over (TypeWords). So none of them can come to say
-- something else in a statement that uses it.
pub mod TextWords
pub mod FaultWords
pub mod EventWords
pub mod PlainWords
pub mod CheckWords
pub mod TypeWords
