-- `line::read_feature` meets its contract: a law of `Lines` for each return. Assumes nothing.
use Rattle.std.proofs.Common.{arith}
use Rattle.sheet.proofs.Lines.{feature_wrong, feature_full, feature_bad, feature_repeat, feature_kept}
use Rattle.sheet.proofs.line.read_feature.Goals as goal

pub returns-then-not-is_one : goal.returns-then-not-is_one
returns-then-not-is_one c = λ v m g t h seen st so lies. feature_wrong _ c.is_one.result c.is_one.ensures _ _ st c.if-not-is_one.true c.refuse.ensures

pub returns-then-k-ge-MOST_FEATURES : goal.returns-then-k-ge-MOST_FEATURES
returns-then-k-ge-MOST_FEATURES c =
    λ v m g t h seen st so lies.
    feature_full _ c.is_one.result c.is_one.ensures _ _ st c.if-not-is_one.false so
    (omega (arith, c.if-k-ge-MOST_FEATURES.true)) c.refuse-then-k-ge-MOST_FEATURES.ensures

pub returns-then-not-is_name : goal.returns-then-not-is_name
returns-then-not-is_name c =
    λ v m g t h seen st so lies.
    feature_bad _ c.is_one.result c.is_one.ensures _ _ st
    c.if-not-is_one.false so c.if-k-ge-MOST_FEATURES.false c.is_name.ensures
    c.if-not-is_name.true c.refuse-then-not-is_name.ensures

pub returns-then-is_some : goal.returns-then-is_some
returns-then-is_some c =
    λ v m g t h seen st so lies.
    feature_repeat _ c.is_one.result
    c.is_one.ensures _ _ st
    c.if-not-is_one.false so
    c.if-k-ge-MOST_FEATURES.false c.is_name.ensures
    c.if-not-is_name.false c.find_name.ensures c.is_some.ensures c.if-is_some.true
    c.refuse-then-is_some.ensures

pub returns : goal.returns
returns c =
    λ v m g t h seen st so lies.
    feature_kept _ c.is_one.result
    c.is_one.ensures _ _ st
    c.if-not-is_one.false so c.if-k-ge-MOST_FEATURES.false
    c.is_name.ensures c.if-not-is_name.false
    c.find_name.ensures c.is_some.ensures c.if-is_some.false lies
