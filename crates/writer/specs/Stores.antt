-- What a store does to a buffer, and to the writer that the buffer is lent to.
--     Wrote before at bytes after upto   `bytes` begin at the end reached, `at`, and move it past themselves, to `upto`; all else is as it was
--     Appends before bytes after         the same of a writer, which goes on in the same buffer
--     Begins buffer w                    the writer w is at the start of the buffer
--     room n w                           n more bytes fit
use Rattle.std.specs.Prelude.{◌≡◌, ℕ, ◌+◌, ◌≤◌, List, ◌++◌, length, take, drop}
use Rattle.std.specs.Borrow.{MutBor}
use Rattle.writer.specs.declared.writer.Writer.{Writer}

pub record Wrote (before : List ℕ) (at : ℕ) (bytes : List ℕ) (after : List ℕ) (upto : ℕ) : Type 0 where
  pub end : upto ≡ at + length bytes
  pub front : take upto after ≡ take at before ++ bytes
  pub rest : drop upto after ≡ drop upto before
  pub size : length after ≡ length before

pub record Appends (before : Writer) (bytes : List ℕ) (after : Writer) : Type 0 where
  pub wrote : Wrote before.buffer.now before.end bytes after.buffer.now after.end
  pub same : after.buffer.ghost_name ≡ before.buffer.ghost_name

pub record Begins (buffer : MutBor (List ℕ)) (w : Writer) : Type 0 where
  pub start : w.end ≡ 0
  pub holds : w.buffer.now ≡ buffer.now
  pub same : w.buffer.ghost_name ≡ buffer.ghost_name

abbrev pub room : ℕ → Writer → Type 0
room n w = w.end + n ≤ length w.buffer.now
