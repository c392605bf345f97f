use Rattle.std.proofs.Common.{ap, ◌∙◌, arith, rules, sym, subst, List, ℕ, ◌≤◌, length, ◌≡◌, ◌++◌, take, Some}
use Rattle.lot_play.specs.Folder.{ReadsInto}
use Rattle.lot_play.proofs.ReadLoop.{none_read, more_read, served_on, IsRead}
use Rattle.lot_play.proofs.reading.read_all.Goals as goal

pub loop-n-init : goal.loop-n-init
loop-n-init g c =
    let nothing = c.new-content.ensures in (
      c.requires,
      (λ name. (λ h. h, λ h. h)),
      subst (λ (z : List ℕ). length z ≤ 16777216) (sym nothing) (omega arith),
      subst (λ (z : List ℕ). IsRead (g.F.Folder.state c.args.folder.now) (g.F.Folder.state c.args.folder.now) c.args.name.now z) (sym nothing) (none_read _ _),
    )

pub loop-n-preserved : goal.loop-n-preserved
loop-n-preserved g c =
    let reads = λ (content : List ℕ) (h : (g.F.Folder.state c.loop-n.folder).content c.args.name.now ≡ Some content).
    subst (λ (z : List ℕ). ReadsInto c.read-read.new.buf content (length z) c.in-Ok.n (length c.loop-n.buf)) c.as_slice.ensures (c.in-Ok.ensures.bytes content h) in
    let fits : c.in-Ok.n ≤ length c.read-read.new.buf = search rules in
    let more = more_read _ (g.F.Folder.state c.loop-n.folder) (g.F.Folder.state c.read-read.new.self) _ _ c.read-read.new.buf c.in-Ok.n _ c.loop-n.invariant.3 reads fits c.in-Ok.ensures.given c.read-read.ensures.later c.read-read.ensures.same in
    let grown : c.append.new.self ≡ c.loop-n.content ++ take c.in-Ok.n c.read-read.new.buf = c.in_ok-append.ensures.ok ∙ ap (λ (n : ℕ). c.loop-n.content ++ take n c.read-read.new.buf) (omega arith) in
    let short : length c.append.new.self ≤ 16777216 = subst (λ (z : List ℕ). length z ≤ 16777216) c.as_slice-in-loop-n.ensures c.if-as_slice-gt-MAX_DOCUMENT_BYTES.false in (
      (c.read-read.ensures.serves _).0 c.loop-n.invariant.0,
      served_on _ _ _ c.loop-n.invariant.1 c.read-read.ensures.serves,
      short,
      subst (λ (z : List ℕ). IsRead (g.F.Folder.state c.args.folder.now) (g.F.Folder.state c.read-read.new.self) c.args.name.now z) (sym grown) more,
    )
