use Rattle.std.proofs.Common.{◌≡◌, sym, ◌∙◌, le-leb, rules}
use Rattle.std.proofs.lemmas.Bool.{lt-leb}
use Rattle.refusal.specs.Test.{tests}
use Rattle.bench_words.specs.Groups.{word_of}
use Rattle.bench_words.specs.declared.Word.TheVariants.{Byte}
use Rattle.bench_words.specs.Turns.{grows_full, grows_byte}
use Rattle.bench_words.proofs.grown.Goals.{else-count-eq1, then-count-eq1}
use Rattle.bench_words.proofs.grown.Goals as goal

pub returns-then-bytes-n : goal.returns-then-bytes-n
returns-then-bytes-n c =
    let a = c.args in
    let e : word_of a.s.now ≡ Byte c.in-Byte.x = sym c.word_of.ensures ∙ c.in-Byte.is in
    grows_full a.g a.bytes.now a.s.now c.requires c.in-Byte.x e c.if-bytes-n.true

pub returns-then-count-le2 : goal.returns-then-count-le2
returns-then-count-le2 c =
    let a = c.args in
    let e : word_of a.s.now ≡ Byte c.in-Byte.x = sym c.word_of.ensures ∙ c.in-Byte.is in
    grows_byte a.g a.bytes.now a.s.now c.requires c.in-Byte.x _ _ e c.if-bytes-n.false
    (elim c.if-count-eq1.branch [ then-count-eq1 w ↦ search (tests, rules) | else-count-eq1 w ↦ search (tests, rules) ]) (rw (le-leb _ _ c.if-count-le2.true))

pub returns-else-count-le2 : goal.returns-else-count-le2
returns-else-count-le2 c =
    let a = c.args in
    let e : word_of a.s.now ≡ Byte c.in-Byte.x = sym c.word_of.ensures ∙ c.in-Byte.is in
    grows_byte a.g a.bytes.now a.s.now c.requires c.in-Byte.x _ _ e c.if-bytes-n.false
    (elim c.if-count-eq1.branch [ then-count-eq1 w ↦ search (tests, rules) | else-count-eq1 w ↦ search (tests, rules) ]) (rw (lt-leb _ _ c.if-count-le2.false))
