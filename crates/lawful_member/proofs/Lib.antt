-- Lemmas for the code of lawful members: evidence, and the contents of a journal.
mod Evidence
mod Stored
