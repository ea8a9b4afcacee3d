-- A source that is refused isn't compiled.
use Rattle.std.proofs.Common.{ℕ, List}
use Rattle.cash_compile.specs.declared.refusal.Refusal.{Refusal}
use Rattle.cash_compile.specs.declared.refusal.Refusal.TheVariants.{SourceTooLong, NotUtf8, Lex, Parse, Name, Typing, CodeTooLong, TooManyOps, Memory}
use Rattle.cash_compile.specs.Compile.{IsRefused, IsUncompiled}

pub uncompiled : (source : List ℕ) (refusal : Refusal) → IsRefused source refusal → IsUncompiled source refusal
uncompiled source (SourceTooLong bytes) h = h
uncompiled source (NotUtf8 at) h = h
uncompiled source (Lex fault) h = h
uncompiled source (Parse fault) h = h
uncompiled source (Name fault) h = h
uncompiled source (Typing fault) h = h
uncompiled source (CodeTooLong bytes code) h = absurd h
uncompiled source (TooManyOps count code) h = absurd h
uncompiled source Memory h = h
