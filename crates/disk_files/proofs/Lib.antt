mod LeftOver
